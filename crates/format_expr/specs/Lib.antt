pub mod Faults
pub mod Language
pub mod Reading
pub mod Scan
pub mod TokenRows
pub mod Tokens
