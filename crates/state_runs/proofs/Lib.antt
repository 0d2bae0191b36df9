mod Making
mod Moved
mod Putting
mod Sorted
mod Whole
