-- The laws of these definitions, for crates above to cite.
pub mod Late
