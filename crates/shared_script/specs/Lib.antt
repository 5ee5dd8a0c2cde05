pub mod Lanes
pub mod Runs
pub mod Tasks
pub mod Texts
