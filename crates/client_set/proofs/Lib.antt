pub mod ChangedPlace
pub mod RisingLaws
pub mod Places
pub mod MemberLaws
