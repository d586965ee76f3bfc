pub mod Grammar
pub mod Values
pub mod Writing
pub mod Reading
pub mod ValueReading
