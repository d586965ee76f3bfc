pub mod StatusLaws
pub mod ChangeLaws
pub mod AlarmSteps
pub mod ReaderSteps
pub mod WindowSteps
pub mod ServiceSteps
pub mod SavedLaws
