mod Repeated
mod Finding
mod Gathering
mod Roots
