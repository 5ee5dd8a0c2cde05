pub mod Bits
pub mod Files
pub mod Given
pub mod Pages
pub mod Parts
