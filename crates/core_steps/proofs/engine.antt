-- the engine's parts, and lists of them
pub mod Lists
pub mod Each
pub mod Opened
