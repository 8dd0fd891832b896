-- What is proved of the definitions and cited by other crates.
pub mod Losing
