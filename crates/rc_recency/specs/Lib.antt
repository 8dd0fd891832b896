pub mod Holding
pub mod laws
pub mod calls
