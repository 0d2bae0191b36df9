pub mod Scans
pub mod Tallies
pub mod Visits
