pub mod Clap
pub mod Lines
