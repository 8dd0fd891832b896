pub mod Crowding
pub mod Evictions
pub mod laws
pub use Rattle.rc_chain.specs.declared.chains.Snap
pub use Rattle.rc_chain.specs.Lives
