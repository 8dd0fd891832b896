-- What is proved of the definitions, and cited elsewhere.
pub mod Orders
pub mod Passing
