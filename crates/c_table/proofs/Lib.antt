pub mod Handles
pub mod Lists
pub mod Looks
pub mod Owned
pub mod Shares
pub mod Slices
pub mod Tries
