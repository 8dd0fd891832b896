pub mod Listed
pub mod Seated
