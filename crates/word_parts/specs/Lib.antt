pub mod Ends
pub mod Input
pub mod Place
