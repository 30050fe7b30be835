pub mod Input
pub mod Parted
