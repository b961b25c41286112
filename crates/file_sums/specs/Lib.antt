pub mod Fits
pub mod Summing
