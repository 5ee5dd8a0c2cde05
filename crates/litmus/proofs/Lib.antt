pub mod CountLemmas
pub mod LaneLemmas
pub mod LiveLemmas
pub mod ReadLemmas
pub mod RunLemmas
pub mod StepLemmas
pub mod ShownLemmas
