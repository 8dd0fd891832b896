pub mod calls
pub mod laws
pub mod Versions
pub use Rattle.rc_object.specs.Objects
pub use Rattle.lsa_tree.specs.Entries
pub use Rattle.lsa_tree.specs.laws.Trees
pub use Rattle.lsa_tree.specs.laws.Orders
pub use Rattle.lsa_tree.specs.laws.Found
