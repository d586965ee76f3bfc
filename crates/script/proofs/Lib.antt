mod Names
mod Commas
mod Skipping
mod FirstLine
mod Answering
mod Turns
mod LineFronts
mod Parts
