-- What inner functions promise each other.
pub mod Coming
