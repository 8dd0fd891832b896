pub mod Held
pub mod Lives
pub mod Marked
pub mod laws
pub use Rattle.rc_reading.specs.Reading
pub use Rattle.rc_memory.specs.Memory
pub use Rattle.rc_memory.specs.laws.Put
