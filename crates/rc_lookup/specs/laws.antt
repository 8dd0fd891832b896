-- Laws of what is lost, of what stays, and of what is left.
pub mod Lost
pub mod Staying
pub mod Rest
