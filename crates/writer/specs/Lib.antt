pub mod Back
pub mod Answer
pub mod Writes
pub mod Steps
