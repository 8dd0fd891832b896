pub mod Room
pub mod Account
pub mod laws
pub mod calls
