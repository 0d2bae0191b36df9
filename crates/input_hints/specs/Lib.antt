pub mod Help
pub mod Kinds
pub mod Peeking
pub mod Refused
pub mod Wrong
