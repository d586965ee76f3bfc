pub mod CheckSteps
mod ScanLaws
