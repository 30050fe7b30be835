pub mod Low
pub mod Read
