mod EndLemmas
pub mod RangeLemmas
