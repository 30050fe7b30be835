pub mod Tokens
pub mod Run
