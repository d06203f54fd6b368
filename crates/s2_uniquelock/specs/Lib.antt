pub mod Holds
pub mod Locks
