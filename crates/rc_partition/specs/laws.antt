-- Laws of partitions in the region, for the proofs of what stands on them.
pub mod Apart
pub mod Bytes
pub mod Changed
pub mod Lists
pub mod Listed
pub mod Moved
pub mod Roots
pub mod Same
pub mod Whole
