pub mod Frames
pub mod Acts
pub mod Asked
