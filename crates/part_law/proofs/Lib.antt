pub mod TileRecords
pub mod PartShares
pub mod AnyOrder
pub mod OneText
