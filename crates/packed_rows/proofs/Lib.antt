mod PackedExamples
pub mod PackLaws
pub mod RingLaws
pub mod RowLaws
pub mod UnpackLaws
