pub mod Did
pub mod Making
pub mod Passing
pub mod Reading
pub mod Sharing
pub mod Spots
pub mod calls
pub mod laws
