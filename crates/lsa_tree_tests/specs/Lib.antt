pub mod Furnished
pub mod Walking
