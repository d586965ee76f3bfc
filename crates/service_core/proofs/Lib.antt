pub mod ActLaws
pub mod LogConditions
pub mod NtfActs
pub mod Standing
pub mod SendLaws
pub mod AppliedLaws
pub mod SendActs
pub mod FitLog
pub mod ListSteps
pub mod CapacityLaws
pub mod OpeningLaws
pub mod HoldingLaws
pub mod RestoringLaws
pub mod FollowLaws
mod ValueLaws
pub mod SavingLaws
