pub mod RingMap
pub mod View
pub mod Sound
pub mod Steps
pub mod Tells
pub mod Effects
pub mod Places
