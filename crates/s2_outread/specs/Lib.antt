pub mod Lines
pub mod Expected
pub mod Parts
pub mod Outputs
pub mod Reading
pub mod Taking
