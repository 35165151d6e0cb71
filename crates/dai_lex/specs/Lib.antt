pub mod Bytes
pub mod Errors
pub mod Front
pub mod Pieces
pub mod Signs
pub mod Tokens
pub mod Words
