mod Blocks
mod Keeps
mod Outside
