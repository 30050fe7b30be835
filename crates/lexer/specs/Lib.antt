pub mod Value
pub mod Scan
pub mod Words
pub mod Steps
