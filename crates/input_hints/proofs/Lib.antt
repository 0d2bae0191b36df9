mod Begun
mod Peeks
mod Words
