pub mod Adding
pub mod Alike
pub mod Files
pub mod Sums
