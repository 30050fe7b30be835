pub mod Blocks
pub mod Branches
pub mod Classes
pub mod Guards
pub mod Members
pub mod Taking
