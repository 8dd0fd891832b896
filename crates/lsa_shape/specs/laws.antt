-- Laws of trees along links, for the proofs of what stands on them.
pub mod Depths
pub mod Hanging
pub mod Places
pub mod Reading
pub mod Rotations
pub mod Sides
pub mod Readings
pub mod Ways
