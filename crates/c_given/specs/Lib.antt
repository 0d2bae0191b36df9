pub mod Which
pub mod Takes
pub mod Owned
pub mod Calls
