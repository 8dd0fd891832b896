-- What inner functions of this crate promise each other; no public clause speaks of it.
pub mod Answering
pub mod Index
pub mod Storing
pub mod Counting
