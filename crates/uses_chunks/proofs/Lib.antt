mod Grows
mod Numbered
mod Lone
