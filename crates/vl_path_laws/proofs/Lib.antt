mod Objects
mod Holders
mod Things
mod Places
