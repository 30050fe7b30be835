pub mod Again
pub mod Back
pub mod Blocks
pub mod Left
pub mod Placed
pub mod Rewriting
pub mod Accepting
