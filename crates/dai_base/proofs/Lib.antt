pub mod PlaceLemmas
pub mod Counts
