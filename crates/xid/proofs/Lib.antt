pub mod Halving
pub mod Checked
pub mod Ascii
mod Examples
pub mod Tabled
