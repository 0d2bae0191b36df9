pub mod Elements
pub mod Permute
pub mod Draws
pub mod BlockRows
pub mod RowNumbers
