pub mod Opened
pub mod Counted
pub mod Sifting
pub mod Sieve
pub mod Good
pub mod Begun
