pub mod Pins
pub mod Walks
pub mod InOrder
pub mod Readings
pub mod Dealing
