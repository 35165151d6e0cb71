pub mod Cuts
pub mod Digits
pub mod Runs
pub mod Drafts
pub mod Texts
pub mod Asks
pub mod Talks
