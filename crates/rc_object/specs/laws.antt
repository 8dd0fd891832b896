-- Laws of objects as values, for the proofs of what stands on them.
pub mod Made
pub mod OneValue
pub mod Spelled
