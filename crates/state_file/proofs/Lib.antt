mod Division
mod Folding
mod Linear
mod Parts
mod Sections
mod Sevens
mod Short
mod Slices
