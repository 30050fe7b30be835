pub mod Answer
pub mod Outcome
pub mod Reads
pub mod Steps
