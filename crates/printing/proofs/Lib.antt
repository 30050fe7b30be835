pub mod Writing
pub mod Digits
pub mod Parts
pub mod Lines
pub mod Value
pub mod Examples
