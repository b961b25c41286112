pub mod Takes
pub mod Faults
pub mod Ways
