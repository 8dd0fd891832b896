-- Laws of what this crate defines, for the proofs of other crates.
pub mod Ordered
pub mod Says
pub mod Sought
pub mod Spent
