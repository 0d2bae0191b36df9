pub mod Listings
pub mod Counts
pub mod Visits
