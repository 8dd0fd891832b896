-- What inner functions promise each other.
pub mod Entering
pub mod Filling
pub mod Reading
pub mod Recent
pub mod Touched
