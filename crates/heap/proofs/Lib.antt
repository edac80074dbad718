mod Steps
mod Moves
mod Parts
