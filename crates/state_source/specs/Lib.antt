pub mod Adding
pub mod Beside
pub mod Reading
