pub mod FactLemmas
pub mod LineLemmas
pub mod PlaceLemmas
