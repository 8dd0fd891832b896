pub mod Forms
pub mod Memtables
pub mod Optional
pub mod Pages
pub mod Past
pub mod Remainders
pub mod calls
