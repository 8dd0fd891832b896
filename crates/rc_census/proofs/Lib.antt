pub mod Counted
pub mod Lawful
pub mod Numbered
pub mod Sums
pub mod Taken
pub mod Versions
pub mod Walked
pub mod Weighed
