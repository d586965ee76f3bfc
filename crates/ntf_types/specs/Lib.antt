pub mod EventRows
pub mod Kinds
pub mod Sound
pub mod SoundTests
