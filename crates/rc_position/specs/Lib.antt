pub mod Position
pub mod laws
