pub mod States
pub mod Legal
pub mod Answers
pub mod Phases
pub mod Turns
pub mod Shown
pub mod Ending
