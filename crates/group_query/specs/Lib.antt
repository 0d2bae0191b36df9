pub mod Answers
pub mod Grouping
pub mod Made
pub mod Stops
