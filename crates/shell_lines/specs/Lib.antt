pub mod Words
pub mod ChunkRequests
pub mod TableRequests
pub mod RingRequests
pub mod TocRequests
pub mod BarrierRequests
pub mod Requests
