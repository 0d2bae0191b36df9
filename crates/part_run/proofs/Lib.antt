pub mod ByPart
pub mod Spread
pub mod Grown
pub mod Held
pub mod Lending
pub mod Parting
pub mod SeatedLists
pub mod Read
pub mod Rows
mod FoundSpread
