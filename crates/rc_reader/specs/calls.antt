-- What inner functions promise each other.
pub mod Making
