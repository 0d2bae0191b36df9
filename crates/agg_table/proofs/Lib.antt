pub mod Putting
pub mod Growing
pub mod Seats
pub mod Listed
pub mod Standing
pub mod Drains
pub mod Paired
pub mod Ended
