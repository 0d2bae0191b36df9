pub mod FilePlans
pub mod Words
