mod FallLaws
mod ScriptSteps
pub mod CommandSteps
pub mod StatusLaws
