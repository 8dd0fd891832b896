-- What inner functions of this crate promise each other; no public clause speaks of it.
pub mod Feed
pub mod Late
pub mod Standing
pub mod Status
