pub mod Examples
pub mod Mapped
pub mod Unquoted
