pub mod Messages
pub mod Counts
pub mod Stored
pub mod Sends
pub mod Receives
