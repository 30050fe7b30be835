pub mod Admitted
pub mod Examples
pub mod Halved
pub mod Joining
pub mod Nearest
pub mod Negation
pub mod Written
