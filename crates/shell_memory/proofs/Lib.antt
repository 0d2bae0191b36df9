pub mod Named
pub mod Placed
pub mod ChunkLaws
pub mod Apart
pub mod ContentLaws
pub mod FillLaws
pub mod TableLaws
