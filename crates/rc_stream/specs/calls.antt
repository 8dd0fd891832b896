-- What inner functions of this crate promise each other; no public clause speaks of it.
pub mod Both
pub mod Did
pub mod Holding
pub mod Merging
pub mod Moving
