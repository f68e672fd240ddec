mod Integers
mod Indices
mod Selected
