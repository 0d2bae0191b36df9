pub mod Key
pub mod Chains
pub mod Hung
pub mod Walk
pub mod Cells
pub mod Outcome
pub mod Calls
pub mod Listing
