pub mod Choice
pub mod Leading
pub mod Stuck
pub mod Paths
pub mod Slices
pub mod Words
pub mod Rows
pub mod Deep
pub mod Blocks
pub mod Files
pub mod Fronts
mod Within
