pub mod Jobs
pub mod Lanes
