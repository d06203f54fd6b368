pub mod Sorting
pub mod FoundLemmas
pub mod Fitting
