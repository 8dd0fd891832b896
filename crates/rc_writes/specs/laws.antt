-- The laws of writes, for crates above to cite.
pub mod FittingValues
pub mod FittingBounds
pub mod FittingJoins
pub mod FittingChanges
pub mod OnePlace
pub mod Within
