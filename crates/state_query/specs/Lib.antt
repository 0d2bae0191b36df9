pub mod Inputs
pub mod Ranges
pub mod Stops
pub mod Whys
