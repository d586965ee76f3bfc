pub mod ListSteps
pub mod ToldLines
pub mod PostingSteps
pub mod PostAllSteps
pub mod ReadSteps
pub mod DispatchSteps
pub mod ListingSteps
mod LookSteps
pub mod DeliverySteps
pub mod AskSteps
pub mod TakingSteps
pub mod ReplySteps
pub mod FrontSteps
mod Places
