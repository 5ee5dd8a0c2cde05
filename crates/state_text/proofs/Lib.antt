pub mod FrontLines
pub mod Holding
pub mod Joined
pub mod Members
pub mod New
pub mod Watched
pub mod UsedFrames
