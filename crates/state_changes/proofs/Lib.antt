pub mod FirstText
pub mod Kept
pub mod Lines
pub mod Made
pub mod Marking
pub mod Parts
pub mod Traces
pub mod Walking
