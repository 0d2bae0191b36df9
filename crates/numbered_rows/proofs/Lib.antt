pub mod Lefts
pub mod Joins
pub mod Heads
pub mod Behind
