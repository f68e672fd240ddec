pub mod LeftLaws
pub mod Numbers
pub mod Places
pub mod Rests
pub mod Views
