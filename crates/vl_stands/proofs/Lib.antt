pub mod Shows
pub mod Stands
pub mod Runs
