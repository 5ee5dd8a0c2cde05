pub mod BesidesLemmas
pub mod EndLemmas
pub mod KernelLemmas
pub mod RuleLemmas
