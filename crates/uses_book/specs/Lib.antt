pub mod Counting
pub mod Drawers
pub mod Trading
pub mod Hands
