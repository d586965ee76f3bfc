pub mod Decimals
pub mod FaultLaws
pub mod LanguageLaws
pub mod OnLiterals
pub mod ReadingLaws
pub mod Rows
pub mod Steps
pub mod TokenLaws
