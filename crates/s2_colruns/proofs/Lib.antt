pub mod Left
pub mod Grown
