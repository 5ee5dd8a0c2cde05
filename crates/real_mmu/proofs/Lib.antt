mod Words
mod Told
pub mod Due
mod Entering
mod Remembered
mod Uses
mod Steps
mod Whole
mod Waiting
pub mod Driven
mod WholeExamples
mod DrivenExamples
