pub mod Histories
pub mod Calling
pub mod Serial
pub mod Turns
pub mod Cores
pub mod Rules
