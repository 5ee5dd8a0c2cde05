pub mod Keeping
pub mod Storing
pub mod Copying
pub mod Serving
pub mod Placing
pub mod Judging
pub mod Auditor
pub mod Laws
