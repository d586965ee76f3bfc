pub mod Counting
pub mod Falling
pub mod Figures
pub mod Loads
pub mod Scripts
