pub mod Body
pub mod Faults
