pub mod Cover
pub mod Head
pub mod Words
