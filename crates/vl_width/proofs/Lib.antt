mod Early
pub mod Numbers
pub mod Settled
mod Tables
mod TermViews
pub mod Views
mod Walks
