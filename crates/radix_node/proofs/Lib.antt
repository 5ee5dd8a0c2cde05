pub mod Runs
pub mod Flat
pub mod Divided
pub mod Joined
pub mod Folds
pub mod Locks
pub mod OwnedRuns
pub mod Walks
pub mod Surveys
pub mod Listing
pub mod Edits
pub mod OnePage
mod Written
mod Pages
