pub mod Tests
pub mod Tokens
pub mod Runs
