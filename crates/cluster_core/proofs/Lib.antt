pub mod TwoSeats
mod EventSteps
pub mod BeginSteps
