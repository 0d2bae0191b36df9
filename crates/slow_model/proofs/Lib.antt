pub mod GroupRows
pub mod KeyFields
pub mod Places
pub mod Refused
pub mod FilledSlots
pub mod Worked
