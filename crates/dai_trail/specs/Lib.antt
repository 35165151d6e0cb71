pub mod Formula
pub mod Lists
pub mod Codes
pub mod Rank
pub mod Trail
pub mod Marks
pub mod Conflicts
