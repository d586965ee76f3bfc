pub mod DashLaws
pub mod WordLaws
