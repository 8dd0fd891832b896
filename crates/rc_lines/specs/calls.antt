-- What the functions that read a line promise one another: they read it by its shape, and then under a schema.
pub mod ShapeParts
pub mod Shapes
pub mod ShapeMeaning
pub mod ByShape
pub mod TextParts
