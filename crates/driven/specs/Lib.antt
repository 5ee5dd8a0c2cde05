pub mod Telling
pub mod Driving
pub mod Reclaiming
pub mod Duties
pub mod Served
pub mod Gotten
