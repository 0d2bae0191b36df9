mod Adds
mod Gone
mod Many
mod Nowhere
pub mod Rests
