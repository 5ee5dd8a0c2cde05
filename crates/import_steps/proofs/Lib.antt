mod NameLemmas
mod TakingLemmas
