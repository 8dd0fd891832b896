-- Laws of versions of chains as they are held.
pub mod Held
pub mod Placed
