pub mod Refusals
pub mod Numbers
pub mod Bounds
pub mod Options
pub mod Words
pub mod Readings
