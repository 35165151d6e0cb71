pub mod Digits
pub mod Parts
pub mod Steps
pub mod Ranges
