pub mod Equality
pub mod SavedEquality
