mod Examples
pub mod LeadLemmas
pub mod Lists
pub mod OnceLemmas
pub mod PartLemmas
pub mod TimeLemmas
