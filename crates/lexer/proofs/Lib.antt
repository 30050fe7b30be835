pub mod Writing
pub mod Turning
pub mod Values
pub mod Finding
pub mod Enough
pub mod Running
pub mod Promise
pub mod Properties
pub mod Laws
pub mod Refusals
pub mod Computed
mod Examples
