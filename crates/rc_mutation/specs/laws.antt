-- The laws of fragments and of the parts of writes, for crates above to cite.
pub mod FragMerge
pub mod OneMore
pub mod Parts
pub mod Written
pub mod JoinedRows
pub mod Sources
pub mod CanonicalListed
pub mod CanonicalMerging
pub mod CanonicalPieces
pub mod Rebuilt
pub mod ByKey
