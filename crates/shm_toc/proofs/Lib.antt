pub mod Entries
pub mod Stores
pub mod Tables
pub mod Kept
pub mod Serving
pub mod Uses
