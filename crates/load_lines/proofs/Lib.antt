mod Words
pub mod Fixed
pub mod Turns
pub mod Whole
