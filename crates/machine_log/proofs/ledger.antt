-- what is known of ledgers
pub mod Unpacking
