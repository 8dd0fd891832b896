pub mod laws
pub mod Recency
pub mod calls
