pub mod Premises
pub mod Answers
pub mod Memory
pub mod Ready
