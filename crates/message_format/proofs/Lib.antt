pub mod DraftLaws
pub mod ElementLaws
pub mod EventLaws
mod FormatExamples
