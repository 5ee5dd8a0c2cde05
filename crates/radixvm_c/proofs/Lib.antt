pub mod Values
pub mod Coded
pub mod Logged
pub mod ChairValues
pub mod Sent
pub mod Refusing
