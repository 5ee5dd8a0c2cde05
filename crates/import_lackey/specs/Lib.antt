pub mod Heard
pub mod Replies
pub mod Tracing
pub mod Traced
