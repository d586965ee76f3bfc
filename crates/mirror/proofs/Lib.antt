pub mod AgainLaws
pub mod ByValueLaws
pub mod HeardLaws
pub mod HearingLaws
pub mod Judging
pub mod PairingLaws
pub mod ReplicaLaws
pub mod Wanted
