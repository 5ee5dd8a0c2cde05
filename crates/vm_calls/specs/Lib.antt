pub mod Checks
pub mod Decisions
pub mod Settling
pub mod Plainly
