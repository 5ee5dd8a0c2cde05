pub mod Verdicts
pub mod Texts
pub mod Reports
pub mod Counts
pub mod Program
pub mod Witness
