pub mod Answers
pub mod Query
pub mod Runs
