pub mod PlaceLaws
pub mod Tracks
pub mod Ways
pub mod Present
pub mod Stages
pub mod Fits
pub mod Uses
