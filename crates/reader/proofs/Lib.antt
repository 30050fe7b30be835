pub mod Filled
pub mod Came
pub mod Read
pub mod Derived
pub mod Asked
mod Examples
