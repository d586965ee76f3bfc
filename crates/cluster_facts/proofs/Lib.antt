pub mod Marks
pub mod Words
pub mod Clients
pub mod Growing
pub mod Posting
pub mod Keeping
pub mod Rows
