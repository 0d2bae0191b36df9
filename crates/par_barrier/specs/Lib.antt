pub mod Parties
pub mod Legal
pub mod Kept
pub mod Phases
pub mod Shown
pub mod Ending
