-- Laws of what is filled.
pub mod Filled
pub mod Opening
