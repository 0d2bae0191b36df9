mod Between
mod Lines
mod Texts
