-- Laws of chains as they are shown.
pub mod PlaceBeside
pub mod Numbered
