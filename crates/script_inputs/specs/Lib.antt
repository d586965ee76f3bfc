pub mod Inputs
pub mod Unread
