pub mod LeadSteps
pub mod HearSteps
pub mod HearBroken
pub mod HeldSteps
pub mod PushSteps
pub mod GroupSteps
pub mod ReplySteps
