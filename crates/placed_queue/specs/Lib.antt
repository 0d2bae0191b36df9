pub mod Rules
pub mod Sides
pub mod Receives
pub mod Calls
