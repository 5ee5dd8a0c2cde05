pub mod Entry
pub mod Fills
pub mod Inboxes
pub mod Messages
pub mod Tables
pub mod Tlb
