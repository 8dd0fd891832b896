-- The laws of range tombstones, for crates above to cite.
pub mod Order
pub mod Greater
pub mod Covering
pub mod Determined
