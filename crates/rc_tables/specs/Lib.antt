pub mod Located
pub mod Tables
pub mod Streams
pub mod laws
pub mod calls
