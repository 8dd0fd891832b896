pub mod Failures
pub mod Faults
pub mod Files
pub mod Host
pub mod Pushed
pub mod States
pub mod calls
