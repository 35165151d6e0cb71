pub mod Pictures
pub mod Worlds
pub mod Rows
pub mod Rules
pub mod Drawing
pub mod Decoding
pub mod Samples
