pub mod Besides
pub mod Effects
pub mod Ends
pub mod Kernel
pub mod Rulings
