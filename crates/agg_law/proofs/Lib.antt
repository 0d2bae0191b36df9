pub mod States
pub mod Calls
pub mod PutAndLeft
pub mod Gathering
