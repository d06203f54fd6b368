pub mod Reading
pub mod Groups
pub mod Blocks
pub mod Places
pub mod Spells
