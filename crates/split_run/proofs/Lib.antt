mod Blocks
pub mod Drawn
mod FirstPiece
pub mod FirstRow
mod Joining
pub mod SeatedMaps
mod Shared
pub mod FoundPiece
