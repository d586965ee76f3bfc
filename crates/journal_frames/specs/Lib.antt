pub mod Arming
pub mod Frames
pub mod Reading
pub mod Staging
