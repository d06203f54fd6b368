pub mod Built
pub mod Faults
pub mod Lasts
pub mod Keys
pub mod World
pub mod Knows
pub mod Rulings
pub mod Sessions
