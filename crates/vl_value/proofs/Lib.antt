mod Build
mod Examples
mod FaultExamples
pub mod OrderLaws
