-- an event that isn't a step of a call
pub mod Calling
