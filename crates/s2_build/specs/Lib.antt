pub mod Each
pub mod Statements
pub mod Tables
pub mod Drafts
pub mod Builders
