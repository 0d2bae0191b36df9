pub mod Flights
pub mod Steps
pub mod Told
pub mod Uses
