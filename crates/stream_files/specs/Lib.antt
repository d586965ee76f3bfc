pub use Rattle.stream_layout.specs.Deeds
pub use Rattle.disk_model.specs.Counts
pub use Rattle.disk_model.specs.DeviceCalls
pub use Rattle.disk_model.specs.Disk
pub use Rattle.disk_model.specs.Failures
pub use Rattle.disk_model.specs.Causes
