pub mod DigitLaws
pub mod Equality
pub mod LengthLaws
pub mod LineLaws
pub mod OnLiterals
pub mod Rows
pub mod SheetLaws
