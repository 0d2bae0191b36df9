pub mod Answering
pub mod Columns
mod Even
pub mod Fronts
pub mod KeyColumns
pub mod LineTexts
mod Numbers
pub mod Occurring
pub mod Small
pub mod Sorting
pub mod Tables
pub mod Uses
mod Whole
mod Zipped
pub mod Ranges
pub mod PartTexts
