pub mod Answers
pub mod Filled
pub mod Home
pub mod Probes
pub mod Stores
pub mod Used
pub mod Widths
