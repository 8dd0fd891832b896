pub mod Found
pub mod Entries
pub mod Detached
pub mod Invalidated
pub mod calls
pub use Rattle.rc_populate.specs.Filling
pub use Rattle.rc_populate.specs.laws.Filled
pub use Rattle.rc_populate.specs.laws.Opening
