pub mod ChoiceCodes
pub mod Codes
pub mod ListCodes
pub mod Loops
pub mod NumberCodes
pub mod RangeCodes
