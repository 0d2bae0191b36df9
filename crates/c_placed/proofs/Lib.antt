pub mod Owned
pub mod Sites
