pub mod Built
pub mod PutFields
