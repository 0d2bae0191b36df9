pub mod Lone
pub mod MapTurns
pub mod MapCalls
pub mod Tables
pub mod Gets
