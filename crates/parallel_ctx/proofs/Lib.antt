pub mod Idle
pub mod Zips
pub mod Carried
pub mod Queues
pub mod Settling
pub mod Room
pub mod Passes
pub mod Dealing
