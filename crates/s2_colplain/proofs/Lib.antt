pub mod Fields
pub mod Cuts
pub mod Waiting
