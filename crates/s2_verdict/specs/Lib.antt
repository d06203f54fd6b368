pub mod Holders
pub mod Rulings
