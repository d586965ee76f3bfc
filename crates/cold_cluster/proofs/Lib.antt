pub mod Under
pub mod Beside
pub mod Doing
pub mod Coming
pub mod Keeping
pub mod Calm
pub mod Runs
pub mod Rows
