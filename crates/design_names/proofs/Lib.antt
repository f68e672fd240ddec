mod LinkLaws
mod TreeLaws
mod WalkLaws
mod PathLaws
pub mod ShownLaws
mod StopLaws
mod ClockLaws
mod NameExamples
