pub mod SignLemmas
pub mod PieceLemmas
pub mod Order
pub mod Unique
