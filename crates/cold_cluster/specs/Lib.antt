pub mod Cold
pub mod Falling
pub mod Standing
pub mod Laws
pub mod Lines
pub mod Ended
pub mod Promises
