pub mod Modes
pub mod Order
pub mod Alarms
pub mod Nearest
pub mod Search
pub mod Found
pub mod Inside
pub use Rattle.client_set.specs.Members
