pub mod Scan
pub mod Passing
pub mod Left
pub mod Header
pub mod Begins
pub mod NoTiles
pub mod Finding
pub mod Quotes
