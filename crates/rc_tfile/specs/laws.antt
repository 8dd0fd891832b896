-- Laws of what this crate defines, for the proofs of other crates.
pub mod Follows
pub mod Drafts
pub mod Standing
pub use Rattle.rc_items.specs.laws.Starting
