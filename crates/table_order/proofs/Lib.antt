pub mod Scan
pub mod Fields
pub mod Tables
pub mod Values
pub mod Ranks
pub mod Orders
pub mod Escaped
pub mod Sorted
