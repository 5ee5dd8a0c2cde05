pub mod Deeds
pub mod Edits
pub mod Held
pub mod Lists
pub mod PageTexts
pub mod Shown
pub mod Used
