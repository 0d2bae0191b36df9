mod Among
mod Loops
mod Told
