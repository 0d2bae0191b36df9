pub mod Seams
pub mod Ends
pub mod Stretch
pub mod Quotes
