pub mod OneMeaning
