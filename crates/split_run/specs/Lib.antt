pub mod Pieces
pub mod Causes
pub mod Hands
pub mod Together
