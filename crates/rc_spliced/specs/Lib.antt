pub mod Lines
pub mod Spliced
