pub mod Held
pub mod Lines
pub mod Words
pub mod Parts
pub mod Special
