pub mod Faults
pub mod InMemory
pub mod OverStd
pub mod Reads
