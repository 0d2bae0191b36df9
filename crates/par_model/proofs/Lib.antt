pub mod Folds
pub mod Magnitudes
pub mod Points
pub mod Runs
pub mod ShortNumbers
