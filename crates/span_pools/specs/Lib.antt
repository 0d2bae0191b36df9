pub mod Places
pub mod Listed
pub mod Shape
pub mod Legal
pub mod Lives
pub mod View
pub mod PoolView
pub mod Batch
