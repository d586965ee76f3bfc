pub mod Found
pub mod Joining
