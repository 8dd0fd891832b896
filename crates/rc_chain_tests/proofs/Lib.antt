pub mod Alone
pub mod Bare
pub mod Covered
pub mod Joined
pub mod Known
pub mod Opened
pub mod Pins
pub mod Rooms
