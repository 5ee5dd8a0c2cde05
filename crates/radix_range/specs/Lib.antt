pub mod Tree
pub mod Found
pub mod Locking
pub mod Folds
pub mod Mapped
pub mod Tight
