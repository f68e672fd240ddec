pub mod LineLaws
pub mod DigitLaws
pub mod ValueLaws
pub mod TurnLaws
pub mod SingleLaws
pub mod StandLaws
pub mod FaultLaws
mod StimulusExamples
