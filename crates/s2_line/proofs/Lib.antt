pub mod Tools
pub mod Exact
pub mod TupleLaws
pub mod TableLaws
pub mod ChangeLaws
pub mod SelectLaws
pub mod LineLaws
pub mod PredicateLaws
