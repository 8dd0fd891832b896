pub mod calls
pub mod Stands
