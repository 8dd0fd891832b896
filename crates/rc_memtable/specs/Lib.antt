pub mod Fits
pub mod Changes
pub mod Writes
pub mod Steps
pub mod LetGo
pub mod Partitions
pub mod calls
pub mod laws
