pub mod Values
pub mod Extensions
pub mod Models
