pub mod Falls
pub mod Appends
pub mod Joining
pub mod Restarting
pub mod Working
