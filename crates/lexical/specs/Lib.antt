pub mod Matches
pub mod Longest
pub mod Characters
pub mod Strings
pub mod Stack
pub mod ByStack
