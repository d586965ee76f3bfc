pub mod AttributeLaws
pub mod Equalities
pub mod Equality
pub mod RoomLaws
