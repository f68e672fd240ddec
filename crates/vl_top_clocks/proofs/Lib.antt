mod Counting
mod Joining
mod Turning
