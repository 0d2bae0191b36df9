mod Blocks
mod Strays
mod Tables
