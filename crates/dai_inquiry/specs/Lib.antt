pub mod Keys
pub mod Truths
pub mod Inquiries
pub mod Asked
pub mod Places
