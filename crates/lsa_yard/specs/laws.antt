pub mod Middles
pub mod Reading
pub mod Changes
pub mod Objects
