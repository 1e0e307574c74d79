pub mod RunSteps
pub mod Runs
pub mod StepBounds
pub mod WholeRuns
pub mod Inputs
pub mod Comparing
