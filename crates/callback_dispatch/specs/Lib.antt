pub mod Seen
pub mod Rule
pub mod Inside
pub mod Crew
pub mod Law
