pub mod Counted
pub mod Done
pub mod Ended
pub mod Faulted
mod Few
pub mod Folding
pub mod Fresh
pub mod Going
pub mod Lost
pub mod Never
pub mod Noted
pub mod Own
pub mod Places
pub mod Replies
pub mod Spent
pub mod Telling
