pub mod Cells
pub mod Laws
pub mod Shown
pub mod Turns
