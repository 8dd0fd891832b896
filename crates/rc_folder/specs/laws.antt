-- What is proved of a folder's tables and cited by the servers that keep one.
pub mod Ahead
pub mod Fitting
pub mod Listed
pub mod Over
pub mod Flushing
pub mod Sealing
