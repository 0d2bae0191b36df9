mod Numbers
mod Whole
mod Sorting
mod Rising
mod Cuts
mod Stretches
mod Places
mod Entries
mod Groups
pub mod Lines
pub mod Strict
mod Answering
mod Together
pub mod AllGroups
