mod Fronts
mod Pieces
mod Texts
