-- What inner functions promise each other.
pub mod Writing
pub mod Reading
pub mod Steps
