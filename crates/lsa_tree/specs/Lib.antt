pub mod calls
pub mod laws
pub mod Entries
pub mod Search
pub mod Tree
