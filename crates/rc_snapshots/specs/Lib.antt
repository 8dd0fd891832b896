pub mod Fillers
pub mod Streams
pub mod Seeing
pub mod laws
pub use Rattle.rc_cursor.specs.declared.readers.SnapshotReader
pub use Rattle.rc_cursor.specs.Snapshots
