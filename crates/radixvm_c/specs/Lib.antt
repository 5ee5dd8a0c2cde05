pub mod Behind
pub mod Handles
pub mod Laws
pub mod Rooms
pub mod Seats
