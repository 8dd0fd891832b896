pub mod Ends
pub mod Exchanges
pub mod Fields
pub mod Names
pub mod Refs
pub mod Sizes
