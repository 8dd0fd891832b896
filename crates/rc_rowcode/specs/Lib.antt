pub mod calls
pub mod Spelling
pub mod Space
pub mod laws
pub mod Objects
