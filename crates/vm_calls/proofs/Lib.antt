mod Seeking
pub mod Rooms
mod Steps
mod Absent
mod OnePage
mod Surveyed
pub mod Targets
pub mod Readable
pub mod Passed
mod Places
pub mod Alike
pub mod Accesses
pub mod Plainly
