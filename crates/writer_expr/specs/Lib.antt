pub mod Levels
pub mod Laid
pub mod Forms
pub mod Put
