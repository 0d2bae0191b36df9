pub mod Pages
pub mod Tickets
pub mod Backs
pub mod Owned
pub mod Seats
pub mod Causes
pub mod Moments
