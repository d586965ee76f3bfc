pub mod Fit
pub mod FitTests
pub mod Matching
pub mod Meaning
