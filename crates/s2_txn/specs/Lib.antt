pub mod Duplicates
pub mod Entries
pub mod Items
pub mod Looks
pub mod Opening
pub mod Planning
pub mod Refusals
pub mod Says
