pub mod Fitting
pub mod Valued
pub mod Stepping
pub mod Tabling
pub mod Literals
pub mod Judged
