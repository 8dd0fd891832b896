-- What inner functions of this crate promise each other; no public clause speaks of it.
pub mod Codes
pub mod Ends
pub mod Moves
