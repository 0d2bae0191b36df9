pub mod Kept
mod Orders
mod Within
