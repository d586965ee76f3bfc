pub mod AgainLaws
pub mod HearSteps
pub mod ConfirmSteps
