mod Elements
mod Counted
