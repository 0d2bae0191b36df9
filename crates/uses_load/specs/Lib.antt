pub mod Passes
pub mod Counted
