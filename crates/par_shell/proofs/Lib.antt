pub mod Pieces
pub mod RunLaws
pub mod StopLaws
