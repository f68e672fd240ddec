pub mod OneBlock
pub mod SameDesign
pub mod Calls
