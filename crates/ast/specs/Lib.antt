pub mod Kind
pub mod Node
pub mod Operator
pub mod Words
pub mod Literal
pub mod Mask
