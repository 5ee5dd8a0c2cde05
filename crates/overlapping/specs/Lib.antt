pub mod Rulings
pub mod Ends
pub mod Replies
pub mod Waiting
pub mod Story
pub mod Explained
