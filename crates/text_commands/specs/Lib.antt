pub mod Checking
pub mod ScanSteps
pub mod Scanning
pub mod Texts
