pub mod Called
pub mod Checks
pub mod Wrote
