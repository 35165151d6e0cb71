pub mod Opened
pub mod Bits
pub mod Cores
pub mod Turning
pub mod Places
