mod Adds
mod Bodies
mod Bounds
mod Keeping
mod Sums
mod Refusals
mod Runs
mod Subjects
