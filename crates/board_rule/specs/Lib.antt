pub mod Views
pub mod Events
pub mod Rule
pub mod Plays
pub mod Laws
pub mod Allowed
