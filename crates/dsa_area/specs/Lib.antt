pub mod Pages
pub mod Pools
pub mod Sizes
pub mod Opening
pub mod Shown
pub mod Requests
pub mod Lives
pub mod Ending
