pub mod BeginSpelled
pub mod BeginSteps
pub mod EventSteps
