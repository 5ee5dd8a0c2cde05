pub mod Order
pub mod Standings
pub mod Histories
pub mod Looks
pub mod Following
pub mod Laws
