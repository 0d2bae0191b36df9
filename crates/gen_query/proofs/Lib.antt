pub mod Adding
pub mod Grouped
pub mod Numbers
pub mod NumberRows
pub mod Texts
pub mod Steps
pub mod AskedRows
pub mod Summed
