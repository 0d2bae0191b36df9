pub mod Tuple
pub mod Shape
