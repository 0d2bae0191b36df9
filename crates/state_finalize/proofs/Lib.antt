mod Printing
mod Within
