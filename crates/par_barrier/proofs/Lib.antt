pub mod Members
pub mod Rooms
pub mod Ways
pub mod Turns
pub mod Histories
pub mod Calls
pub mod Endings
pub mod Attached
