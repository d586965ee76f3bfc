pub mod NtfCodes
pub mod LogCodes
pub mod CallCodes
pub mod SavedCodes
pub mod MessageCodes
pub mod Verdicts
pub mod Equality
