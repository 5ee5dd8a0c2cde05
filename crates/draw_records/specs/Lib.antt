pub mod Changes
pub mod Columns
pub mod Lines
pub mod Looking
pub mod Recording
