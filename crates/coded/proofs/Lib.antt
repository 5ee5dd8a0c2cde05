pub mod Accesses
pub mod Batching
pub mod Codings
pub mod Holdings
pub mod Listing
pub mod Openings
