pub mod ReaderLaws
pub mod CodeLaws
pub mod Pushes
pub mod Cycles
mod FormLaws
mod HeadingLaws
mod VcdExamples
