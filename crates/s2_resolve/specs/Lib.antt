pub mod Clean
pub mod Suits
pub mod Resolved
