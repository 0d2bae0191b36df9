pub mod Entries
pub mod Runs
pub mod Ranges
pub mod Order
pub mod Jobs
