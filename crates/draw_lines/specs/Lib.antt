pub mod Bits
pub mod Canvas
pub mod Cores
pub mod Dangers
pub mod Drawing
pub mod Places
pub mod Sheet
pub mod Style
