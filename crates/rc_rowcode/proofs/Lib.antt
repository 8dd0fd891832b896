pub mod Loops
pub mod Merging
pub mod Heads
pub mod Joins
pub mod Comparing
