pub mod Leading
pub mod Nodes
