pub mod Shown
pub mod Header
pub mod Number
pub mod Width
