pub mod Watched
pub mod Counting
