pub mod calls
pub mod Guarded
