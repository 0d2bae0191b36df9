pub mod Descriptor
pub mod Planned
