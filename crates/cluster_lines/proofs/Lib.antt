pub mod KeepSteps
pub mod LineSteps
pub mod LineBroken
pub mod LineSpelled
pub mod BeginSpelled
pub mod OwnLines
mod ShowSteps
pub mod WildLines
pub mod StopSteps
