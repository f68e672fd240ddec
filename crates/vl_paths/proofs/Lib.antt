pub mod Deciding
pub mod Table
pub mod Pushed
pub mod Holding
pub mod Names
