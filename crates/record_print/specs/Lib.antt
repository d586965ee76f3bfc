pub mod Figures
pub mod Printing
pub mod Records
pub mod Sheets
pub mod Laws
pub mod Lengths
