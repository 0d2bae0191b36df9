pub mod Named
pub mod Held
pub mod Stored
pub mod Outcomes
