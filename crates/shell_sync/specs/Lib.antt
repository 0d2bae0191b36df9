pub mod Rings
pub mod Barriers
pub mod Meetings
