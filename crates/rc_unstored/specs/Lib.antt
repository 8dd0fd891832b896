pub mod Memtables
pub mod Readers
pub mod Steps
pub mod calls
