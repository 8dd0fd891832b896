pub mod Reading
pub mod laws
pub mod calls
pub use Rattle.rc_partition.specs.laws.Roots
