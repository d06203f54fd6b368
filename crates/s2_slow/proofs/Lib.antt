pub mod SlowHistories
pub mod SlowTables
pub mod SlowAnswers
pub mod SlowNotes
pub mod SlowMoves
