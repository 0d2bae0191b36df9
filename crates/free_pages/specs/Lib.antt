pub mod Area
pub mod Runs
pub mod Legal
pub mod PagesView
