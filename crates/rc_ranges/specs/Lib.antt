pub mod calls
pub mod Cover
pub mod laws
