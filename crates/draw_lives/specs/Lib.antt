pub mod Calls
pub mod Histories
pub mod Joining
pub mod Lives
pub mod Living
