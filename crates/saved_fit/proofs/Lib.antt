pub mod MarkLaws
pub mod RisingLaws
pub mod FileLaws
pub mod FillingLaws
pub mod SubLaws
pub mod WindowLaws
