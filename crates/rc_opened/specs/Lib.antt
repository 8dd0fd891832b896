pub mod Behind
pub mod Opened
pub mod Written
pub mod calls
