pub mod Steps
pub mod Names
pub mod Words
pub mod First
pub mod Within
pub mod Laws
mod Examples
