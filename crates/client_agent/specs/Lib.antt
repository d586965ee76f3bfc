pub mod Inside
pub mod Marks
pub mod Seen
pub mod Steps
pub mod Waiting
