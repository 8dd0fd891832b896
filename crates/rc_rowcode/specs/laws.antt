-- The laws of the codes, for crates above to cite: what a reader and a spelling owe each other, that no spelling begins another, the limits, and the lengths.
pub mod Fields
pub mod Codecs
pub mod RowCodec
pub mod Read
pub mod Limits
pub mod Sizes
pub mod JoinedSizes
