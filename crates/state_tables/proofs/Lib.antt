mod AllRanges
mod Order
mod Same
mod SoFar
mod Texts
