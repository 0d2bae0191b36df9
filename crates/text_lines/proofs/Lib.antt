pub mod Counts
pub mod Parts
pub mod Ends
pub mod Openings
pub mod Outside
