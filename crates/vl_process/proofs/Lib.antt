mod Build
mod DriverFaultExamples
mod NameFaultExamples
mod PartExamples
mod RunExamples
mod Runs
mod StandsExample
