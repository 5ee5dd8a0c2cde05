pub mod CollectLemmas
pub mod DeclarationLemmas
pub mod FilePieces
pub mod OwnFaults
pub mod ScriptLemmas
pub mod TaskLemmas
pub mod TextLemmas
