pub mod Parted
pub mod Step
pub mod Turn
