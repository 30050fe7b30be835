pub mod TextLength
