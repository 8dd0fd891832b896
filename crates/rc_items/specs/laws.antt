-- Laws of what this crate defines, for the proofs of other crates.
pub mod Starting
pub mod Heads
pub mod Unfit
