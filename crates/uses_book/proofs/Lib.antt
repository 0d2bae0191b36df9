mod Sums
mod Drawn
pub mod Popped
pub mod Rotated
