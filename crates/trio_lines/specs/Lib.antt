pub mod Lines
pub mod Printing
pub mod Scripts
pub mod Answers
pub mod LineReading
pub mod Weaving
