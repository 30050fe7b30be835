pub mod Trees
pub mod Levels
pub mod Values
pub mod Operators
pub mod Brackets
