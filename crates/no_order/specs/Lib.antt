pub mod Beginnings
pub mod Answers
