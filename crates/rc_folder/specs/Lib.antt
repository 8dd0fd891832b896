pub mod calls
pub mod Tabled
pub mod Opening
pub mod Counting
pub mod laws
