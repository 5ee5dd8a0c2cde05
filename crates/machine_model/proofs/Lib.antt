pub mod Accesses
pub mod Aiming
mod AloneExamples
pub mod Apart
pub mod Asked
mod Awaiting
pub mod Beside
pub mod Bracketed
pub mod Changed
mod CoherenceExamples
pub mod CoherenceKept
pub mod CoherenceSteps
pub mod Commits
pub mod Cores
pub mod Counted
pub mod CountingDown
mod CountsExamples
pub mod CountsKept
pub mod Deciding
pub mod Effects
pub mod Ending
mod Examples
pub mod Fills
pub mod First
mod Framed
mod Freeing
pub mod Going
pub mod Kept
pub mod Lists
pub mod Locking
pub mod Logs
pub mod Moves
mod Noting
pub mod Numbered
pub mod OneMap
pub mod OpenCalls
pub mod Opening
pub mod Owned
pub mod Pages
pub mod Paging
mod PlacedRun
mod Rank
pub mod Reaching
pub mod Replies
mod Resting
mod Rows
pub mod Run
mod Seeking
pub mod Serving
pub mod Setups
pub mod Shapes
pub mod Slots
pub mod Sound
mod SoundExamples
pub mod SoundKept
pub mod SoundMoves
pub mod SoundOpening
pub mod SoundPages
pub mod Stores
mod Storing
mod TakenRun
pub mod Taking
pub mod Telling
pub mod Used
pub mod Using
pub mod Words
