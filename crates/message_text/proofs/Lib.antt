mod MessageExamples
pub mod BlockLaws
pub mod BlocksLaws
pub mod RadixLaws
