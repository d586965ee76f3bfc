pub mod Basics
pub mod CodeTables
pub mod Comparing
pub mod Equality
pub mod TimeLaws
