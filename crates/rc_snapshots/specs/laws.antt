-- What is proved of what snapshots see, and cited by other crates.
pub mod Seeing
