pub mod KeyLaws
pub mod TableLaws
pub mod GrowthLaws
pub mod MarkLaws
pub mod FitLaws
pub mod AlarmLaws
pub mod ReaderLaws
pub mod AnswerLaws
mod Rows
