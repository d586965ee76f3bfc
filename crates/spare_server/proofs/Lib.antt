mod ThreeSeats
mod EventSteps
mod LineSteps
mod OwnSteps
mod StandbySteps
mod BeginSteps
