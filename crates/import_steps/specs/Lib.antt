pub mod Names
pub mod Shared
pub mod Taking
pub mod Losses
pub mod Counts
pub mod Texts
