pub mod Answer
pub mod Compacting
pub mod laws
