pub mod Folding
pub mod Histories
pub mod Nexts
pub mod Parts
pub mod Reached
pub mod Replay
pub mod Slots
