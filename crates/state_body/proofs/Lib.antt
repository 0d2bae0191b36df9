mod Bodies
mod Ends
pub mod Indexes
mod Taking
