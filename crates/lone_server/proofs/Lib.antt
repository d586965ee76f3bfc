pub mod RoseSteps
pub mod JoinSteps
pub mod BackSteps
