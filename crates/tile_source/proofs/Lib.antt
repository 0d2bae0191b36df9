pub mod Scans
pub mod Leaves
pub mod Passes
pub mod Opening
pub mod Marks
pub mod Reasons
