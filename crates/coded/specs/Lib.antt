pub mod Bits
pub mod Codes
pub mod Opening
pub mod Batches
pub mod Holding
pub mod Maps
pub mod Logs
pub mod Asked
