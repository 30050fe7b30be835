pub mod Gaps
pub mod Levels
