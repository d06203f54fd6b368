pub mod Ints
pub mod Packed
pub mod Texts
