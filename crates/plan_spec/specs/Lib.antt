pub mod Binding
pub mod Given
pub mod Grammar
pub mod Merging
pub mod Options
pub mod Parts
pub mod Query
