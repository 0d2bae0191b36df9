pub mod Arguments
pub mod Entries
pub mod ItemNames
pub mod Fills
pub mod Present
pub mod Merges
pub mod Missing
pub mod Nulls
pub mod Numbers
pub mod Parsed
pub mod Places
pub mod Relations
mod Texts
pub mod Values
pub mod Plain
