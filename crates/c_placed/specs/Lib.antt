pub mod Numbers
pub mod Ends
pub mod Owned
pub mod Calls
