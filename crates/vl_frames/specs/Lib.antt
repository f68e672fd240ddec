pub mod Changes
pub mod Marks
pub mod Named
pub mod Sights
