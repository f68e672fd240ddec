pub mod Cases
pub mod CompleteLaw
pub mod LoadLaws
pub mod SpotLaws
pub mod InputLaws
pub mod RowsLaws
pub mod StepsLaws
pub mod ToldLaws
pub mod FailLaws
pub mod SettledLaw
pub mod TopLaws
mod Examples
