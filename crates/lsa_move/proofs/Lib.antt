pub mod RenamedLaws
pub mod Rounds
pub mod Tightness
