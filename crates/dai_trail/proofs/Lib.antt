pub mod FlatLists
pub mod Ranks
pub mod Mirrors
pub mod Forces
pub mod Resolutions
pub mod Gathers
pub mod Turns
pub mod Encodings
