pub mod Answers
pub mod Asked
pub mod Lines
pub mod Ready
pub mod Refused
pub mod Stops
