pub mod Bounds
pub mod Quotient
