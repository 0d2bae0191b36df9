pub mod Files
mod Fitting
pub mod Pushed
pub mod Rising
mod Slots
