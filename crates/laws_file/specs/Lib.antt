pub mod Walk
pub mod Rest
pub mod Procedures
pub mod Codes
pub mod Kinds
