pub mod Cells
pub mod Spelled
pub mod laws
pub mod calls
pub use Rattle.lsa_segment.specs.Bytes
