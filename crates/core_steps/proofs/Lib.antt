pub mod Keeping
pub mod MapLines
pub mod Reached
pub mod Runs

-- what is known of a machine and of runs; lemmas of a room are named in its file beside this one
