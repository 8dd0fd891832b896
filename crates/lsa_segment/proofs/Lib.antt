pub mod Byte
pub mod Emptied
pub mod Held
pub mod Written
