-- What the functions here promise one another; no definition and no clause of the crate's own calls rests on it.
pub mod Inside
pub mod Taken
pub mod Again
