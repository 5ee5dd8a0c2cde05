pub mod Done
pub mod Status
pub mod Words
