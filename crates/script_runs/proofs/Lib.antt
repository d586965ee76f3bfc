pub mod ReadingSteps
mod ScriptSteps
