pub mod Fits
pub mod Numbers
pub mod Printed
pub mod Reading
pub mod Separable
