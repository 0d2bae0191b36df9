pub mod Kinds
pub mod Outer
pub mod Partners
pub mod Worked
