-- What inner functions promise each other.
pub mod Words
pub mod Keeping
pub mod Standing
pub mod Layers
pub mod Pages
pub mod Remainders
