pub mod Arms
pub mod Journals
pub mod Replays
pub mod Starts
