pub mod Writes
pub mod Digits
pub mod Escapes
mod Examples
