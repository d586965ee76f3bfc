pub mod Equality
pub mod EventTypes
pub mod SoundLaws
