pub mod Causes
pub mod Covers
