pub mod Adding
mod Giving
mod Weighing
