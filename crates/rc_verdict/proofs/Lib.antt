pub mod Items
pub mod Verdicts
