pub mod Runs
pub mod Jobs
pub mod Whole
