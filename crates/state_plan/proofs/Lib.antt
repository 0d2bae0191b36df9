mod Commands
mod Plans
mod Texts
