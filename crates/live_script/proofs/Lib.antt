pub mod CallLemmas
mod CertifyLemmas
mod FaultLemmas
mod FitLemmas
pub mod HistoryLemmas
mod KeptLemmas
mod LaneLemmas
pub mod LaterLemmas
mod NumberedLemmas
mod SumLemmas
mod TaskLemmas
mod TextLemmas
mod TurnLemmas
