pub mod Books
pub mod Places
pub mod Sparse
pub mod Sums
pub mod Words
pub mod Written
