pub mod Newest
pub mod Low
pub mod Stating
pub mod Gathering
pub mod OneLine
