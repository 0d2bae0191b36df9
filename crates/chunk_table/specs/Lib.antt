pub mod Asked
pub mod Tables
pub mod Promises
pub mod Ending
