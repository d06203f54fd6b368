pub mod Inputs
pub mod Sizes
pub mod Checking
