pub mod Masks
pub mod Written
pub mod Closing
pub mod Inside
pub mod Spans
pub mod Found
