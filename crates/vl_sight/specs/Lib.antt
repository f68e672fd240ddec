pub mod Bodies
pub mod Firsts
pub mod Levels
pub mod Named
pub mod Seen
