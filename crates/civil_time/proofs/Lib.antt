pub mod Counting
pub mod OnLiterals
pub mod Rows
pub mod StampLaws
