pub mod Numbers
pub mod Shares
pub mod Tries
pub mod Made
pub mod Codes
pub mod Owned
pub mod Calls
