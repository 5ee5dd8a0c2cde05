mod ChangingLemmas
pub mod Fronts
mod LiningLemmas
pub mod NoNotes
mod PageLemmas
pub mod PictureLemmas
mod SayingLemmas
mod StateLemmas
pub mod TracedFronts
pub mod TracedLines
