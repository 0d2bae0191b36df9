pub mod Ordered
pub mod Stops
pub mod Pieces
