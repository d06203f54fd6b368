pub mod Words
pub mod Literals
pub mod Lexing
pub mod Printing
pub mod Spelling
pub mod Reading
