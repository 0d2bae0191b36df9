pub mod Digits
pub mod Given
