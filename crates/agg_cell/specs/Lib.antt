pub mod StateWords
pub mod ReadBack
pub mod Cell
pub mod Called
