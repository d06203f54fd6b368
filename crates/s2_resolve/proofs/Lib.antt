pub mod Lists
pub mod Words
pub mod Names
pub mod Statements
pub mod Tables
pub mod Lines
