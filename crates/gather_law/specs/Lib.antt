pub mod Tuples
pub mod Parts
pub mod Law
pub mod Shares
pub mod KeyParts
pub mod Sharing
