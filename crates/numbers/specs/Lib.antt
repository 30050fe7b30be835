pub mod Bits
pub mod Decimal
pub mod Digits
pub mod Integer
pub mod Search
