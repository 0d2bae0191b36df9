pub mod Inputs
pub mod Outcomes
pub mod RefusedRows
pub mod Statuses
