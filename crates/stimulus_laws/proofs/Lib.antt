pub mod GluedLaws
pub mod FitLaws
