pub mod Counting
pub mod Universal
pub mod Profile
pub mod Most
pub mod Sample
pub mod Verdicts
pub mod Marked
