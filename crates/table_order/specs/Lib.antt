pub mod Numbers
pub mod Order
pub mod Shown
pub mod Lines
pub mod Entries
pub mod Digits
pub mod Places
