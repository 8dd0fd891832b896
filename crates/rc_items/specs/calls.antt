-- What inner functions of this crate promise each other; no public clause speaks of it.
pub mod Reading
