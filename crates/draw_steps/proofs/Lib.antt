pub mod Joined
pub mod Rising
