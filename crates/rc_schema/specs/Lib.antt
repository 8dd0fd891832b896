pub mod SchemaValue
pub mod SchemaText
pub mod Checks
pub mod Largest
pub mod calls
pub mod laws
