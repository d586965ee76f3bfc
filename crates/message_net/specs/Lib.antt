pub mod Inside
pub mod Nets
