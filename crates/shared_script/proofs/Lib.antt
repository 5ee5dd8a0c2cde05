mod EachLemmas
mod LaneLemmas
mod TaskLemmas
mod TextLemmas
