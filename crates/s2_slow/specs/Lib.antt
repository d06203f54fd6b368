pub mod SlowNotes
