mod Blank
pub mod Cuts
mod FirstRows
mod Groups
mod Joins
mod Laws
mod Read
mod Tiles
mod Told
mod Trees
mod Wholes
