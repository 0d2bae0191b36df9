pub mod Calls
pub mod Shown
pub mod Ending
pub mod Drained
