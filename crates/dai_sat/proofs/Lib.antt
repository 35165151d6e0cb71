pub mod LeastModels
pub mod Decisions
pub mod Unders
pub mod Readies
