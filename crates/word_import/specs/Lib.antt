pub mod Gathered
pub mod Status
pub mod Words
pub mod Joined
pub mod Times
pub mod Replied
pub mod Replying
