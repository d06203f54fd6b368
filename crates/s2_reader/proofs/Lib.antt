pub mod Feeds
pub mod Shallow
pub mod Going
pub mod Kept
pub mod Once
