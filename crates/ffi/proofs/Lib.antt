pub mod Small
pub mod Asked
pub mod Told
pub mod Seven
pub mod Length
pub mod Served
