pub mod Readings
pub mod Segments
pub mod Words
