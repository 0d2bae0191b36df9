pub mod Carrying
pub mod Parted
pub mod Held
pub mod Hands
pub mod Moving
pub mod Waiting
