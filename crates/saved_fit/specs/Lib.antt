pub mod Rising
pub mod Files
pub mod Filling
pub mod Streams
pub mod Asking
pub mod Alarms
