pub mod ClientPlaces
pub mod Lookups
pub mod Fronts
pub mod ReaderLists
