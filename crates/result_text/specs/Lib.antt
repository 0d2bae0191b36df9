pub mod KeyColumns
pub mod Printable
pub mod Text
pub mod GroupOrder
pub mod Written
pub mod Lines
pub mod Pieces
pub mod PartTexts
