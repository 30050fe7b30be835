pub mod Rows
pub mod Longer
pub mod Lows
pub mod Mask
pub mod Rounds
pub mod Plain
pub mod Codes
pub mod Examples
