pub mod Falling
pub mod Handing
pub mod Keeping
pub mod Known
pub mod Marking
pub mod Taking
pub mod Subscribed
