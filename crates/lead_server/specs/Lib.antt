pub mod Told
pub mod Heard
pub mod Roles
pub mod Parting
pub mod Again
pub mod Confirming
