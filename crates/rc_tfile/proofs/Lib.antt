pub mod Widths
pub mod Limiting
pub mod Ahead
pub mod Lengths
pub mod Turns
pub mod Awaiting
pub mod Partitions
