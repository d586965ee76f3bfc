pub mod Fit
pub mod Conditions
pub mod Laws
