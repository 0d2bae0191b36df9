pub mod Values
pub mod Rows
pub mod Reading
pub mod Parts
