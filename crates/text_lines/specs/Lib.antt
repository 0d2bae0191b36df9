pub mod Feeds
pub mod Begins
pub mod Quotes
