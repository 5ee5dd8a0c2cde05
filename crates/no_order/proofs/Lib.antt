pub mod Fronts
pub mod AmissLemmas
pub mod FileLemmas
