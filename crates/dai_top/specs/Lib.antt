pub mod Bounds
pub mod Limits
pub mod Answers
pub mod Outcome
pub mod Stops
