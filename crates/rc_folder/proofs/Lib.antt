pub mod Held
pub mod Next
pub mod Since
pub mod Opened
