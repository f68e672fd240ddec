mod FormatExamples
pub mod PieceLaws
pub mod SettledLaws
mod FlatExamples
