pub mod Atoms
pub mod ClauseFormulas
pub mod Meeting
pub mod Spaces
pub mod Renamings
pub mod Lists
pub mod Links
