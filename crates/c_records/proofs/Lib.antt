pub mod Handles
pub mod Looks
pub mod Owned
pub mod Shares
pub mod Tries
