pub mod Chains
pub mod Found
pub mod Gathered
pub mod Join
pub mod Law
pub mod Pairing
