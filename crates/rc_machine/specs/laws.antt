-- What is proved of the machine's steps and cited by other crates.
pub mod Asking
pub mod Changes
pub mod Reading
pub mod Holding
pub mod Folder
pub mod FittingKeys
pub mod FittingParts
