pub mod Names
pub mod Chunks
pub mod Tables
pub mod Contents
