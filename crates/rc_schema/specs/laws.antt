-- The laws of the checks, for crates above to cite.
pub mod Fitting
pub mod SchemaTexts
