pub mod Gap
pub mod Indentation
