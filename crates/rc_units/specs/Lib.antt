pub mod Clean
pub mod Update
pub mod Chained
