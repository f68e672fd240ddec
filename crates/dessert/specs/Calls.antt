-- What the functions inside promise each other. Nothing of it stands in the promise of the top call.
pub mod Told
pub mod Rows
pub mod Writing
pub mod Written
pub mod Ended
pub mod Loading
pub mod Led
