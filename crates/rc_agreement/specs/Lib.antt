pub mod Agreement
pub mod Standing
pub mod calls
