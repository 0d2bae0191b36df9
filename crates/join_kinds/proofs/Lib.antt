mod Anys
mod Flags
mod Merged
mod Merging
mod Numbers
mod Tables
