pub mod Worlds
pub mod Beginning
pub mod Playing
pub mod Parts
pub mod Starting
