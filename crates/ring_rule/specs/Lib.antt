pub mod Frames
pub mod Ring
pub mod Ends
pub mod Codes
