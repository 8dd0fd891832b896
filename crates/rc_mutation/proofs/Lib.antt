pub mod Places
pub mod RowsMerge
pub mod Alone
pub mod Same
