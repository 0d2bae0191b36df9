mod Counts
pub mod Each
mod Gaps
mod Runs
mod Settled
