pub mod Generator
pub mod Plan
pub mod Summary
pub mod Totals
pub mod Used
pub mod Words
