pub mod Printed
pub mod Wrote
pub mod Masked
