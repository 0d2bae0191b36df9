mod Complete
mod Joins
mod Rows
mod OneTable
