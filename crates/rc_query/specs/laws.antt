-- The laws of answers, for crates above to cite.
pub mod Cuts
pub mod Life
pub mod SameAnswer
pub mod Answers
pub mod Compacting
