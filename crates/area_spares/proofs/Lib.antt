pub mod Each
pub mod Outcomes
pub mod Sizes
pub mod Lists
