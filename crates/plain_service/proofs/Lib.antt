pub mod ListLaws
pub mod LivingStreams
pub mod FirstRecords
pub mod WellKnown
pub mod OkAnswers
pub mod Possible
pub mod ReplyLaws
pub mod ItemLaws
pub mod IdLaws
pub mod AskedLaws
pub mod HistoryEvents
pub mod StepLaws
pub mod FilesLaws
pub mod RecordLaws
pub mod MomentLaws
mod Rows
