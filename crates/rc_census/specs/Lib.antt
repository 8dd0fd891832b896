pub mod Census
pub mod calls
