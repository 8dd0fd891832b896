pub mod Putting
pub mod Heads
pub mod Parting
pub mod Slowly
pub mod Dropping
pub mod Reaching
pub mod Together
