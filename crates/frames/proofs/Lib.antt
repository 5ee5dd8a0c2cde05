pub mod BitSets
mod Cached
pub mod Counted
pub mod Counting
pub mod PageLists
pub mod Stored
