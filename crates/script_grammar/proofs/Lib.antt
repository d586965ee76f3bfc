pub mod Rules
pub mod Digits
pub mod Numbers
pub mod Texts
pub mod Words
pub mod Inner
pub mod Writing
