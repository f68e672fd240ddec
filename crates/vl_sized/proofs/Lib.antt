mod Constants
mod Copies
mod Covered
mod Evaluated
mod Integers
mod Joints
mod Judged
mod Least
pub mod NodeViews
mod Senses
mod Told
mod Widths
pub mod Worths
