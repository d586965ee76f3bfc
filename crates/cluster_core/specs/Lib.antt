pub mod Worlds
pub mod Broken
pub mod Playing
pub mod Parts
pub mod Starting
pub mod Game
pub mod GameLaws
pub mod Runs
