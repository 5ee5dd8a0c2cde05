pub mod Tokens
pub mod Calls
pub mod Stamps
pub mod Speech
pub mod Looks
pub mod Said
pub mod Replies
