pub mod Steps
pub mod Chunks
pub mod Openings
pub mod Uses
pub mod Lives
pub mod Exact
pub mod Popped
