-- What inner functions of this crate promise each other; no public clause speaks of it.
pub mod Limits
pub mod Windows
pub mod Checking
pub mod Stored
pub mod Walking
