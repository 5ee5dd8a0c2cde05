pub mod Lines
pub mod Source
pub mod Sink
pub mod Window
pub mod Scans
pub mod Founds
pub mod Io
pub mod Taken
