pub mod Taken
pub mod Shelved
pub mod TableNumbers
