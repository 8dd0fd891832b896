pub mod calls
pub mod Words
pub mod Numbers
pub mod Spelling
pub mod Printed
pub mod laws
