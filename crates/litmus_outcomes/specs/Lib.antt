pub mod Dues
pub mod Faults
pub mod Leading
pub mod Listing
pub mod Opening
pub mod Outcomes
pub mod Performed
