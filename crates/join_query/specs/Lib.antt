pub mod Answers
pub mod Lines
pub mod Outcome
pub mod Ready
pub mod Stops
pub mod Used
pub mod Words
pub mod Writable
