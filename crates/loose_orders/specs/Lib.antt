pub mod Loose
pub mod Kept
pub mod Laws
pub mod Kernel
pub mod Moved
pub mod Timely
