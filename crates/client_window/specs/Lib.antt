pub mod Inside
pub mod Judgement
pub mod Windows
