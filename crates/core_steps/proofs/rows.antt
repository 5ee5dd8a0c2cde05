-- what a step knows of the state that it begins in, and what it leaves
pub mod Sounding
pub mod Changing
pub mod Known
pub mod Rows
pub mod Lost
pub mod Framing
pub mod Writable
pub mod Left
