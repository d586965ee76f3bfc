pub mod Sentences
pub mod Counting
pub mod Falling
pub mod Endings
pub mod Completing
pub mod CommandSteps
