pub mod Bare
pub mod Left
pub mod Opened
pub mod Snaps
pub mod Written
