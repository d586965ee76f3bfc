pub mod Accounts
pub mod Equality
pub mod Keeping
pub mod Numbering
