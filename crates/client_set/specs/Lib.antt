pub mod Edits
pub mod Members
pub mod Rising
pub mod Searching
