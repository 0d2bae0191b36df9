mod Done
mod Placing
mod Rising
mod Within
