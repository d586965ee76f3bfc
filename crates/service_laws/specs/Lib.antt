pub mod PlainOf
pub mod Disks
pub mod StorageOf
pub mod Telling
