pub mod ByPages
pub mod Once
pub mod Orders
pub mod Pages
