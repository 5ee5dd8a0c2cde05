mod EachLemmas
mod ProcessLemmas
mod ToldLemmas
pub mod EndLemmas
mod RefusingLemmas
mod OwnedLemmas
