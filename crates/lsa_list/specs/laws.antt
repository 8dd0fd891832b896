-- Laws of recency lists, for the proofs of what stands on them.
pub mod Lists
