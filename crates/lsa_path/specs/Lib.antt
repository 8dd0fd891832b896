pub mod laws
pub mod Path
pub mod Roles
pub use Rattle.lsa_region.specs.declared.end.End
pub use Rattle.lsa_region.specs.Paired
pub use Rattle.lsa_region.specs.Ends
pub use Rattle.lsa_region.specs.laws.Exchanges
pub use Rattle.lsa_region.specs.Ref
