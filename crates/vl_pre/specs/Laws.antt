-- Laws of the definitions, in a reader's words.
pub mod Plain
pub mod Selects
