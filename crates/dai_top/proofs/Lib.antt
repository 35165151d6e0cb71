pub mod Held
pub mod Reporting
pub mod Puts
pub mod Sorts
pub mod Faults
pub mod Enough
pub mod OneAnswer
pub mod Outcomes
