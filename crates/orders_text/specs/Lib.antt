pub mod Lines
pub mod History
pub mod Faults
pub mod Apart
pub mod Steps
