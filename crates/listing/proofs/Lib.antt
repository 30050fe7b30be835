pub mod Front
pub mod Listed
