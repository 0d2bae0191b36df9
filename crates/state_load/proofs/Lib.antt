mod Causes
mod Later
mod Loads
