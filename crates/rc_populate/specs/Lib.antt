pub mod Filling
pub mod laws
pub mod calls
