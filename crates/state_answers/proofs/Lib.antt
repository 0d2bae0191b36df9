mod Answers
mod Asked
mod Cats
mod Parts
mod Sent
