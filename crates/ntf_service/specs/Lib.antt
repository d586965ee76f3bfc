pub mod Told
pub mod State
pub mod Planning
pub mod ByKind
pub mod Offering
pub mod Rooms
pub mod Inside
pub mod Laws
