pub use Rattle.ais_values.specs.Causes
pub mod Plans
pub mod Reads
pub mod Streams
pub mod Writes
