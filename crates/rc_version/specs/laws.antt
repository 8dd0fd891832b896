-- Laws of versions in the region, for the proofs of what stands on them.
pub mod Found
pub mod Holding
pub mod Marked
pub mod Moving
pub mod Objects
pub mod Staying
