-- steps one after another: the states that they pass, and the one that is left
pub mod AtOnce
pub mod FaultAtOnce
pub mod ChangeAtOnce
pub mod RangeAtOnce
pub mod FirstEvents
pub mod Divided
