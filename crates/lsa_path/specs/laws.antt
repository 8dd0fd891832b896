-- Laws of paths, for the proofs of what stands on them.
pub mod Beside
pub mod Exchanged
pub mod Members
pub mod Passing
pub mod Paths
pub mod Renamed
pub mod Roles
pub mod Steps
