pub mod Tables
pub mod Answering
pub mod Steps
pub mod Histories
