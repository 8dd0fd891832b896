pub mod Allowed
pub mod laws
pub mod Limits
pub mod Single
pub mod Weight
