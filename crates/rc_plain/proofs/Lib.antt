pub mod Places
pub mod Keyed
pub mod Numbers
pub mod Listed
pub mod Standing
pub mod Tabled
pub mod Counted
