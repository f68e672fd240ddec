-- What the functions promise one another, where that is longer than a line; no definition and no law rests on it.
pub mod Cursors
pub mod Views
pub mod Reading
