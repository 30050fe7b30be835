pub mod Tree
pub mod Flat
pub mod Roles
pub mod Law
