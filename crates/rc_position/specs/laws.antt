-- Laws of what this crate defines, for crates above to cite.
pub mod Bounds
pub mod Orders
