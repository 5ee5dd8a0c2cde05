pub mod Sums
pub mod Watching
