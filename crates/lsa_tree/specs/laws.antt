-- Laws of ordered entries, for the proofs of what stands on them.
pub mod Found
pub mod Orders
pub mod Trees
