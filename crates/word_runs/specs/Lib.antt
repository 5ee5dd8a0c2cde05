pub mod Answering
pub mod Litmus
pub mod Status
pub mod Witness
pub mod Words
