pub mod Kept
pub mod Ranges
pub mod Steps
