pub mod Answers
pub mod Under
pub mod Heaps
