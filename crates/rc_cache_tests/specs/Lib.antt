pub mod Holding
pub mod Tested
