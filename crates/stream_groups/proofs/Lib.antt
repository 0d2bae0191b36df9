mod AllEnds
mod Batches
mod Before
mod Doubles
pub mod Exchanged
pub mod Feeds
pub mod Found
pub mod Gathering
pub mod Parts
mod Places
pub mod ReadAs
pub mod Refusals
pub mod Streams
mod Takes
pub mod Windows
