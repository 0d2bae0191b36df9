pub mod Files
mod Groups
mod Heads
pub mod Numbers
