pub mod Facts
pub mod Next
pub mod Kinds
pub mod Places
pub mod Scripts
