pub mod Texts
pub mod Cached
pub mod Leases
pub mod Ticks
