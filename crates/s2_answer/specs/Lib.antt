pub mod Found
pub mod Suits
