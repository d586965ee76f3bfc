pub mod ArmedSteps
pub mod FilesSteps
pub mod UnaskedSteps
pub mod KitSteps
pub mod HearSteps
pub mod TakenSteps
pub mod BrokenSteps
pub mod ChainSteps
mod FetchSteps
pub mod BrokenClients
pub mod RoundSteps
pub mod CameSteps
mod TurnSteps
mod SettleSteps
pub mod WildSteps
pub mod WildClients
pub mod CountSteps
