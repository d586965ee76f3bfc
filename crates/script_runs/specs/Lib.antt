pub mod Handed
pub mod Reading
pub mod Scripting
