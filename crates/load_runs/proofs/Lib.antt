mod LoadEndings
mod LoadLines
mod TurnSteps
