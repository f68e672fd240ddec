pub mod OneBit
mod ExpressionExamples
mod RunExamples
mod ShownExamples
