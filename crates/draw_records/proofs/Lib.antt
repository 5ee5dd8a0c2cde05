mod Asked
mod ColumnSteps
pub mod CoresBelow
pub mod Pending
pub mod Steps
pub mod Tellers
