mod Looked
mod Changed
mod Noted
