pub mod Column
pub mod Written
pub mod Sizes
pub mod Spells
