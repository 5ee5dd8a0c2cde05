mod TokenLemmas
mod StampLemmas
pub mod SpeechLemmas
mod SaidLemmas
