pub mod Embedding
pub mod Among
pub mod Cut
pub mod Small
