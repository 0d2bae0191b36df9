pub mod Checksum
pub mod Number
pub mod Section
pub mod Slices
pub mod Text
