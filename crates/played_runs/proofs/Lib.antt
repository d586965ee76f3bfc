pub mod CountSteps
pub mod WritingSteps
pub mod PackingSteps
pub mod Cores
pub mod PlayLaws
pub mod PromiseLaws
pub mod TimeLaws
pub mod WaitingLaws
pub mod RefusalLaws
pub mod TellingLaws
pub mod GoingSteps
pub mod FaultLaws
pub mod EndingSteps
pub mod PassingSteps
mod LeftSteps
