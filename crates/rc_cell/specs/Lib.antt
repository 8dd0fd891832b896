pub mod Columns
pub mod Greatest
pub mod laws
pub mod Orders
pub mod Winner
pub mod Deletion
pub mod calls
