pub mod Grouping
pub mod Outlines
pub mod SchemaLengths
