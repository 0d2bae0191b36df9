mod Sent
mod Lent
pub mod Judging
pub mod Saying
pub mod Seated
pub mod Working
pub mod Ends
pub mod Giving
pub mod First
pub mod AtWork
pub mod Hands
