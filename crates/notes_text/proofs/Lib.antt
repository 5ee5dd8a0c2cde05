mod Examples
pub mod FitsLemmas
pub mod MergeLemmas
pub mod NoteLemmas
pub mod NoteWritten
pub mod OrderLemmas
pub mod OutcomeLemmas
pub mod OutcomeWritten
pub mod PieceLemmas
pub mod PrintableLemmas
pub mod ShortLines
pub mod SplitLemmas
pub mod TextOnce
pub mod TextWritten
pub mod VerdictLemmas
pub mod WrittenLemmas
