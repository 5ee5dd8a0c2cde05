pub mod Acting
pub mod Disturbing
mod EchoLemmas
pub mod EventLines
pub mod EventRunLemmas
mod Examples
pub mod LogLineLemmas
pub mod MapsLemmas
pub mod NumberedTexts
pub mod Opening
pub mod PairTable
pub mod PlainCalls
pub mod PlainTextLemmas
pub mod Replying
pub mod RunLemmas
pub mod Seeing
pub mod ShownLemmas
pub mod TurnLemmas
