pub mod Carrying
pub mod Deeds
pub mod Inside
pub mod LogFiles
pub mod Names
pub mod Repeating
pub mod Spots
