pub mod Table
pub mod Requests
pub mod Answers
pub mod Held
