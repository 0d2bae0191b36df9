pub mod Good
pub mod Lines
pub mod Judging
