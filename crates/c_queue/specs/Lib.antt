pub mod Numbers
pub mod Sides
pub mod Sends
pub mod Receives
pub mod Ends
pub mod Made
pub mod Owned
pub mod Calls
