mod Keys
mod Places
mod Slots
