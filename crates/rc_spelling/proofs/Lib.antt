pub mod Digits
pub mod Joined
pub mod Steps
pub mod Pieces
