pub mod Readers
pub mod Snapshots
pub mod calls
pub use Rattle.rc_chain.specs.declared.chains.Snap
pub use Rattle.rc_chain.specs.Memory
