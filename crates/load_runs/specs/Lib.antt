pub mod Handed
pub mod Loading
pub mod LoadSteps
