pub mod Format
pub mod Pieces
pub mod FormatView
pub mod Fired
pub mod FlatRun
pub mod Settled
pub mod Names
pub mod Shown
