pub mod Sorted
pub mod Clauses
pub mod Bridge
pub mod Remembered
pub mod Copied
pub mod Recalled
pub mod Picks
