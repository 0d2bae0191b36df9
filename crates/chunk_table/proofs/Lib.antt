pub mod Legals
pub mod Others
pub mod Founds
