pub mod Sides
pub mod Forms
pub mod Weakenings
pub mod Variables
pub mod Antichains
pub mod Parts
pub mod Samples
