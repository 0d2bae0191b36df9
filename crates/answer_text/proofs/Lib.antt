pub mod Going
pub mod Joined
pub mod Pieces
pub mod Records
pub mod RowLines
