pub mod Group
pub mod Slot
