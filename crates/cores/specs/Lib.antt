pub mod Parts
pub mod Cores
pub mod Effects
pub mod Shown
pub mod Byteless
