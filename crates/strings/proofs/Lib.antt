pub mod Bounds
pub mod Decoding
pub mod Examples
