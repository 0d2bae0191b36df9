pub mod Sizes
pub mod Look
