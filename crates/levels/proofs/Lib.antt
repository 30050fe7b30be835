pub mod Operators
pub mod Operands
pub mod Grouping
pub mod Joining
pub mod Comparing
