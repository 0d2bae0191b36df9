pub mod History
pub mod Ruled
pub mod Told
pub mod Folds
pub mod Shown
