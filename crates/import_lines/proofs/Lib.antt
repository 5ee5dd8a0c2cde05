mod HalfLemmas
pub mod JoinLemmas
pub mod LineLemmas
mod ReadingLemmas
pub mod UnreadLemmas
pub mod MadeLemmas
mod ToldLemmas
mod ThreadLemmas
mod TornLemmas
