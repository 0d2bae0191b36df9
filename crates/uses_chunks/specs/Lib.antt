pub mod Grown
pub mod Ready
