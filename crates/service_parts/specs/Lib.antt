pub mod Windows
pub mod Telling
