pub mod Tables
pub mod Ranges
pub mod Row
pub mod Classes
