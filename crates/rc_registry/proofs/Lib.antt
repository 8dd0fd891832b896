pub mod Keeping
pub mod PinLists
