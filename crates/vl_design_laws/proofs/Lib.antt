pub mod Elaborated
mod Members
mod Inputs
mod Limits
