pub mod Items
pub mod Queue
pub mod History
pub mod Inside
pub mod Laws
pub use Rattle.ntf_types.specs.Kinds
