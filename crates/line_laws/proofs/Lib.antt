mod Pieces
mod Derives
mod Depths
mod Lines
