pub mod ArmLaws
pub mod JournalLaws
pub mod FollowLaws
pub mod ReplayLaws
pub mod StartLaws
