pub mod Text
pub mod Hollow
pub mod Erase
pub mod Alike
pub mod Bare
pub mod Plant
