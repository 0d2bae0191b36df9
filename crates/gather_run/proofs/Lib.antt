pub mod Counting
pub mod Parts
pub mod Seated
pub mod Shares
pub mod Looking
pub mod Together
pub mod Participants
pub mod Home
