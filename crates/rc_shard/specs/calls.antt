-- What inner functions of this crate promise each other; no public clause speaks of it.
pub mod Caching
pub mod Keeping
pub mod Looking
pub mod Storing
pub mod Staying
pub mod Opened
pub mod Reading
pub mod Resaying
