pub mod Written
pub mod CellRuns
pub mod Combining
pub mod Permuted
pub mod Orders
pub mod Rows
pub mod Callers
pub mod AtOnce
